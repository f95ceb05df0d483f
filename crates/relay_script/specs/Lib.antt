pub mod Steps
pub mod Fields
pub mod Lines
pub mod LineParts
pub mod EventLines
