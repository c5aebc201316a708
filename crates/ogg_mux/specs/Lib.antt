pub mod OutputPages
pub mod Muxing
pub mod Room
pub mod Walked
