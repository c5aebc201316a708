pub mod FieldLemmas
pub mod CommentLemmas
pub mod RuleLemmas
pub mod LayoutLemmas
pub mod IdentLemmas
pub mod ShapeLemmas
