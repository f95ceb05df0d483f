pub mod Finding
pub mod Numbers
pub mod OneWay
pub mod Reading
pub mod Fitting
