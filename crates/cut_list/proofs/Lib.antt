mod LineLemmas
mod ItemLemmas
mod NumberLemmas
mod ReadLemmas
pub mod ListedLemmas
