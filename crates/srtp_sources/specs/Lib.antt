pub mod Notes
pub mod Tables
pub mod Counter
pub mod Judged
pub mod SavedWords
pub mod SavedWindowLists
pub mod SavedSources
pub mod SavedKeys
