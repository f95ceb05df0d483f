pub mod Compound
pub mod ReportBlocks
