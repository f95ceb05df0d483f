pub mod Receipts
pub mod Arrivals
pub mod Steps
pub mod WatchNotes
pub mod Ready
pub mod Moves
pub mod ControlSteps
pub mod Output
