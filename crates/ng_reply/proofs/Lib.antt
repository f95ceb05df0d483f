pub mod Numbers
pub mod Spelled
pub mod Pushed
pub mod Jsons
