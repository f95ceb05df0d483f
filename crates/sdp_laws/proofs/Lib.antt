pub mod Each
pub mod Digits
pub mod Joined
pub mod Colons
pub mod Runs
pub mod Hosts
