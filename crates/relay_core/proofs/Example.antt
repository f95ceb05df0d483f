pub mod Datagrams
pub mod Board
pub mod Wire
pub mod Cell
pub mod Members
pub mod Entries
pub mod Legal
pub mod Carried
