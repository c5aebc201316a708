pub mod VerdictLemmas
pub mod CheckLemmas
mod PieceLemmas
pub mod SpacingLemmas
pub mod FaultlessLemmas
pub mod SoundLemmas
pub mod WrittenLemmas
mod PagesLemmas
mod AheadLemmas
mod LetterLemmas
mod GatherLemmas
mod FillLemmas
mod SeekLemmas
mod TurnLemmas
pub mod IndexLemmas
pub mod SourceLemmas
