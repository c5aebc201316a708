pub mod Near
pub mod Difference
pub mod Encoding
pub mod Drafted
pub mod Sources
