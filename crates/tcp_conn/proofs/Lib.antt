pub mod Around
pub mod Segments
pub mod Parting
pub mod PhaseRows
mod Strays
mod Urgent
pub mod TimeWaits
mod InTimeWait
mod TimeWaitArrival
mod TimeWaitLaw
mod Trains
mod Together
mod TrainsWithin
pub mod Unguarded
