pub mod OutputLemmas
pub mod StreamLemmas
pub mod MuxLemmas
pub mod RightLemmas
pub mod WalkLemmas
pub mod LawLemmas
