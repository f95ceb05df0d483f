pub mod Packets
pub mod InboundPackets
pub mod OutboundPackets
pub mod Sessions
pub mod Counts
pub mod Contexts
pub mod SavedCounts
pub mod SavedRtcp
