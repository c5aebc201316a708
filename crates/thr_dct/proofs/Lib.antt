pub mod Cuts
mod ProductLemmas
mod BlockLemmas
pub mod PassLemmas
mod SpreadLemmas
mod EndsLemmas
mod ForwardLemmas
