pub mod Named
pub mod Missed
pub mod Deleted
pub mod Firsts
