pub mod Bodies
pub mod Rooms
