pub mod Digits
pub mod Keys
pub mod LineEnds
pub mod Tags
pub mod Lines
