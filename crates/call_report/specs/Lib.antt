pub mod Tags
pub mod Blocks
