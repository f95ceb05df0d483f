pub mod Trees
pub mod Heads
pub mod Sealing
pub mod KeyLine
pub mod Links
pub mod Moments
pub mod Takes
pub mod Noted
