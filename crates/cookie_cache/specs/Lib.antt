pub mod Keepings
pub mod Entries
pub mod Oldest
pub mod Caches
pub mod Latest
pub mod SavedReplies
pub mod Saved
