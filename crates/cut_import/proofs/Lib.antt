pub mod CodeLemmas
pub mod FollowLemmas
pub mod HeaderLemmas
pub mod RefusedLemmas
pub mod SoundLemmas
