pub mod Lists
pub mod PlaceLemmas
pub mod Cuts
pub mod TextLemmas
pub mod KeyLemmas
pub mod Behind
pub mod Chosen
pub mod Widths
