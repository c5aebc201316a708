pub mod Places
pub mod Faults
pub mod Slices
pub mod Numbers
pub mod Items
pub mod EditList
pub mod Answers
pub mod Listed
