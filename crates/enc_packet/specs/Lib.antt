pub mod WholeFrame
pub mod FullRows
pub mod WrittenHead
