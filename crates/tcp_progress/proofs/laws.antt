-- THE LAWS of one end (what is next is taken, what is in flight, unsent or pending goes out), of no world that is stuck,
-- and of each among strangers.
pub mod NextTaken
pub mod BroughtOn
pub mod FlightSentAgain
pub mod UnsentSent
pub mod PendingSent
mod Examples
pub mod Injected
pub mod NotStuck
pub mod AmongStrangers
pub mod Guarded
