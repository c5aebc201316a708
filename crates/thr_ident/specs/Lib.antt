pub mod Header
pub mod Ident
pub mod Comment
pub mod Fields
pub mod Shape
