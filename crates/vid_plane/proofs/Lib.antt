pub mod CellLemmas
pub mod PictureLemmas
pub mod PaintLemmas
pub mod BorderLemmas
pub mod PlaneLemmas
pub mod WindowLemmas
pub mod FrameLemmas
