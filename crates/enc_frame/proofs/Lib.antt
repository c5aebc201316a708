pub mod DifferenceLemmas
pub mod AddedLemmas
pub mod ListsLemmas
pub mod StateLemmas
pub mod NearLemmas
