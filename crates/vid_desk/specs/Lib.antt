pub mod Meaning
pub mod Memory
pub mod Entry
pub mod Counts
