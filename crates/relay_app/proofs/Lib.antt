mod Refusals
mod Replayed
