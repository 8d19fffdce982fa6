-- RUNS of a world, event by event, and the headline: every run is safe, among strangers, too.
pub mod Parties
pub mod Runs
pub mod Worlds
pub mod Injections
pub mod Passing
pub mod Examples
