pub mod Strings
pub mod Twins
pub mod JsonText
pub mod Members
pub mod Order
