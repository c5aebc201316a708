pub mod SumLemmas
pub mod LeastLemmas
pub mod AllowedLemmas
pub mod LumaLemmas
pub mod PutLemmas
pub mod ChoiceLemmas
pub mod SearchedLemmas
