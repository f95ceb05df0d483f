pub mod Bits
pub mod Nearest
pub mod Noting
pub mod SavedParts
