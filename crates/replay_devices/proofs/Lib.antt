pub mod Gaining
pub mod Counting
pub mod Failing
pub mod KeysDue
pub mod Lists
pub mod Opened
pub mod Places
pub mod Watches
