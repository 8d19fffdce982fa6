pub mod Behaviour
pub mod Repairing
pub mod Record
pub mod Pair
pub mod Door
pub mod Hosting
