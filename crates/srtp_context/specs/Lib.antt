pub mod Packets
pub mod InboundPackets
pub mod OutboundPackets
pub mod Sessions
pub mod Contexts
pub mod SavedRtp
