pub mod KeyStream
pub mod Lines
pub mod Sockets
pub mod Streams
