pub mod Targets
pub mod Spans
pub mod Range
pub mod Forced
pub mod Runs
pub mod Views
pub mod Sound
