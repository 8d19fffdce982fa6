pub mod Placing
pub mod Reported
