pub mod LineReads
pub mod LineWrites
pub mod OneRead
pub mod StateLines
