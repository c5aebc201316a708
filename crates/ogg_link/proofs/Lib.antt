pub mod PartLemmas
pub mod GranuleLemmas
pub mod ProgressLemmas
pub mod StepLemmas
pub mod KeyLemmas
pub mod EndLemmas
