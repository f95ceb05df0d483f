pub mod Exact
pub mod Lessons
pub mod SavedForms
