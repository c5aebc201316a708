pub mod PictureLemmas
pub mod CropLemmas
pub mod TextLemmas
pub mod PlaceLemmas
pub mod NumberLemmas
pub mod FieldLemmas
pub mod ReadingLemmas
pub mod PadLemmas
