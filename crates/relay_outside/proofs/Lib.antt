pub mod LastSent
pub mod Telling
