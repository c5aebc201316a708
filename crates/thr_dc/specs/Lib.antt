pub mod Blocks
pub mod Predictor
pub mod Prediction
pub mod Frames
pub mod Planes
pub mod Walks
pub mod Changes
