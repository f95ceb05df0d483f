pub mod SavedShapes
pub mod Records
pub mod RecordParts
