pub mod Words
pub mod SliceList
pub mod Slices
pub mod Plain
pub mod Sources
pub mod Copy
pub mod Cause
