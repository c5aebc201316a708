pub mod PacketLemmas
pub mod ImportLemmas
pub mod SetupLemmas
