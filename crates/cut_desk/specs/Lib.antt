pub mod Inputs
pub mod Outputs
pub mod Making
pub mod Growing
pub mod Statuses
pub mod Looking
