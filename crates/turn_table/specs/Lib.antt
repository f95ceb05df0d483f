pub mod Histories
pub mod Layout
pub mod Invariant
pub mod Steps
pub mod Hands
pub mod Places
pub mod StateBorrows
pub mod Room
