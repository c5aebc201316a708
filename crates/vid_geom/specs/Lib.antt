pub mod Squares
pub mod Tables
pub mod CodedOrder
pub mod MacroBlocks
pub mod ByBlock
pub mod Layout
pub mod Views
