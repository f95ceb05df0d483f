mod Calls
mod Learning
mod Refusing
mod Keys
mod Spans
mod Asked
mod Families
mod Muxed
