pub mod CodeLemmas
pub mod TreeLemmas
pub mod TableLemmas
pub mod ForestLemmas
pub mod RowLemmas
pub mod SoundLemmas
pub mod FrontLemmas
