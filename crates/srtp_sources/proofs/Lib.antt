pub mod Judging
pub mod Knowing
pub mod Pieces
pub mod SavedKeyParts
pub mod SavedLists
pub mod SavedTables
pub mod Tabling
