pub mod Closings
pub mod ClosingSteps
pub mod Homes
