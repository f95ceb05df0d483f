pub mod Stays
pub mod Rejected
pub mod Taken
pub mod Done
pub mod Wholeness
pub mod Planned
pub mod Asked
pub mod Carried
mod Keyed
