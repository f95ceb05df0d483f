pub mod Commands
pub mod Grammar
pub mod Numbers
pub mod Refusals
pub mod Values
pub mod Words
