pub mod Attributes
pub mod Texts
pub mod Places
pub mod Images
pub mod EditedText
pub mod Steps
pub mod ChosenLines
pub mod Widths
