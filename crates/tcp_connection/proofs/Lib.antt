pub mod Reports
pub mod Resting
pub mod Pending
mod Calling
mod InTime
