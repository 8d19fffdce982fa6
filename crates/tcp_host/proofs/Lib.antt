mod Apart
mod Doors
mod Due
mod Earliest
mod Expiring
pub mod Resting
mod Turned
