pub mod Alone
mod Calling
pub mod Heard
pub mod Resting
pub mod Runs
pub mod Settling
pub mod Truths
