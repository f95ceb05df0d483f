pub mod Addresses
pub mod Openings
pub mod Calls
pub mod Draws
pub mod Ends
pub mod ReturnedEnds
pub mod OpenPorts
