pub mod RowLemmas
pub mod PredictedLemmas
mod ResidualLemmas
