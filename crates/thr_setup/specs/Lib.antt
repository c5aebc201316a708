pub mod Setup
pub mod Tables
pub mod ImportTrees
pub mod Import
