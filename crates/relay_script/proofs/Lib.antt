pub mod Texts
pub mod Payloads
pub mod Digits
pub mod Addresses
pub mod Words
pub mod Once
pub mod Shown
