mod RangeLemmas
mod JoinLemmas
pub mod LawLemmas
pub mod FrameLemmas
pub mod CountLemmas
