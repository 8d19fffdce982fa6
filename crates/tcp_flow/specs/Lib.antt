pub mod Flow
pub mod Wired
pub mod Calls
pub mod InFlight
pub mod FlightOfEnds
pub mod Pipe
