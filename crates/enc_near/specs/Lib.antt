pub mod Near
pub mod Rounds
pub mod Made
pub mod Sources
