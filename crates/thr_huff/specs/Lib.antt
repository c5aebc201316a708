pub mod CodeTree
pub mod TreeCode
pub mod Codes
pub mod Trees
pub mod Rows
pub mod Tables
