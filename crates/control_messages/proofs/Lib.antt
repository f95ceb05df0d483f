pub mod Strings
pub mod Sizes
pub mod Read
pub mod Described
pub mod Datagrams
pub mod Lengths
