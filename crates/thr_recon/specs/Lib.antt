pub mod Residual
pub mod Predicted
pub mod Rebuilt
