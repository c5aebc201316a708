pub mod Films
pub mod Makers
pub mod Statuses
