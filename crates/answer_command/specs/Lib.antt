pub mod Due
pub mod Commands
