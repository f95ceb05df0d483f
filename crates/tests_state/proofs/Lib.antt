mod Depths
mod EndsFor
mod TwoLegs
