pub mod Limits
pub mod Ranges
pub mod Ramps
pub mod Matrix
