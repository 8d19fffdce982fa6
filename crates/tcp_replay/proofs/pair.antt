-- TWO ENDS: what each rule keeps of both directions, where what arrives was emitted by the peer.
pub mod Halves
pub mod Steps
pub mod TakingSegments
pub mod Arrivals
pub mod Calls
pub mod Users
pub mod Emissions
pub mod Events
