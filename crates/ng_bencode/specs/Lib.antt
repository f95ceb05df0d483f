pub mod Room
pub mod Row
pub mod Tree
pub mod Spells
pub mod Lookup
pub mod Fits
