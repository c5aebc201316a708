pub mod FileLemmas
pub mod MeaningLemmas
