mod Between
mod Counts
mod Departures
mod Dues
mod Each
mod Ends
mod Gates
mod Joined
pub mod LaneOrder
mod LoadRuns
mod Loaded
mod Loops
pub mod MediaThreads
mod Orders
mod Rounds
pub mod Runs
mod Sends
mod ServeRuns
mod Making
mod Shut
mod Swept
mod Tied
pub mod Wholes
