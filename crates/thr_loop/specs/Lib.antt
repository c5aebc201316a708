pub mod EdgeRule
pub mod Edges
pub mod Filtered
pub mod Lanes
pub mod Rows
