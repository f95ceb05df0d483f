pub mod Authenticating
pub mod Deriving
pub mod Comparing
