pub mod Division
pub mod Faults
pub mod Page
pub mod Written
pub mod Packets
