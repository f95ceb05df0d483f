pub mod Values
pub mod Effects
pub mod Faults
pub mod Meanings
pub mod Bodies
