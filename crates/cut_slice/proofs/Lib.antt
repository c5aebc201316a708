pub mod ListLemmas
pub mod SourceLemmas
pub mod CopyLemmas
pub mod CuttingLemmas
pub mod CauseLemmas
