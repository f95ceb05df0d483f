pub mod Alike
pub mod Faultless
