pub mod Searched
pub mod ChosenFrame
pub mod Found
pub mod Views
