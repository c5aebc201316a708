pub mod RunLemmas
pub mod WritingLemmas
pub mod FlagLemmas
pub mod RowLemmas
pub mod PartLemmas
