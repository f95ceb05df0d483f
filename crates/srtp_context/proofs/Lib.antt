pub mod PacketLemmas
pub mod Buffers
pub mod Judging
pub mod Sending
pub mod SavedContexts
