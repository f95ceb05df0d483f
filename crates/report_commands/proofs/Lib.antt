pub mod Queried
