pub mod Ends
pub mod Causes
pub mod Answers
pub mod Bodies
pub mod Deletes
pub mod Loads
