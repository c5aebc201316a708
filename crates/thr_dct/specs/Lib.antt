pub mod Line
pub mod Inverse
pub mod Forward
pub mod Passes
