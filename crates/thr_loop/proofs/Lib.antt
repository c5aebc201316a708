pub mod ResponseLemmas
pub mod EdgeLemmas
pub mod OrderLemmas
