pub mod Aes
pub mod Columns
pub mod Field
pub mod Keystream
