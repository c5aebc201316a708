pub mod RunStrings
pub mod Views
pub mod Writing
pub mod Flags
pub mod WrittenFlags
