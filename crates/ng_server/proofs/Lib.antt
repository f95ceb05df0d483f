pub mod Commands
pub mod Kept
pub mod Taken
pub mod Turns
pub mod Tellings
mod Errors
pub mod Resting
