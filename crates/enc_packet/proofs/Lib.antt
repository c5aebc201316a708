pub mod HeadLemmas
pub mod RowLemmas
pub mod SizeLemmas
pub mod MotionLemmas
pub mod PacketLemmas
pub mod StillLemmas
