pub mod Bases
pub mod Calls
pub mod Counts
pub mod Halves
pub mod Intervals
pub mod Joined
pub mod Kept
pub mod Lookups
pub mod Merges
pub mod Places
pub mod Runs
mod Worked
