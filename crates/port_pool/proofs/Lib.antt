pub mod Queue
pub mod Addresses
pub mod Standing
pub mod Numbered
pub mod SavedLeaseParts
pub mod SavedQueues
