pub mod FilmLemmas
pub mod PartLemmas
