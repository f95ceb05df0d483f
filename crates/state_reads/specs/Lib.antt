pub mod Bounds
pub mod Calls
pub mod Refusals
pub mod Texts
pub mod ValueReads
