pub mod Exported
pub mod Films
pub mod Statuses
