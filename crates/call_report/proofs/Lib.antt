pub mod Pushed
pub mod Found
pub mod Sections
pub mod Ordered
pub mod Listed
pub mod Shallow
pub mod Blocks
