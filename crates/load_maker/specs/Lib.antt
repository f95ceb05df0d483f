pub mod Calls
pub mod Datagrams
pub mod Links
pub mod Moments
pub mod Packets
pub mod Ports
pub mod Takes
