pub mod SentReplies
pub mod Requests
pub mod Datagrams
pub mod ControlTurns
pub mod Servers
pub mod Errors
