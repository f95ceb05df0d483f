pub mod KeyStreams
pub mod StreamLines
