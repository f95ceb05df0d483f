pub mod Sources
pub mod Words
pub mod Told
pub mod Sizes
