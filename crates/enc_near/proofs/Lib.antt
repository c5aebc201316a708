pub mod DistanceLemmas
pub mod ZigzagLemmas
pub mod LackingLemmas
pub mod CoefficientLemmas
pub mod SampleLemmas
pub mod MakingLemmas
pub mod DcLemmas
pub mod NearLemmas
