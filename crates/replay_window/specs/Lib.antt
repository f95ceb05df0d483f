pub mod Indices
pub mod SavedWindows
pub mod Windows
