pub mod Lessons
pub mod Learners
pub mod SavedLearners
