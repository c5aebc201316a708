pub mod Picture
pub mod Windows
pub mod Seen
pub mod Paints
pub mod Frames
pub mod Kept
pub mod Lending
pub mod Border
