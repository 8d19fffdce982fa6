pub mod Steady
pub mod Hosted
pub mod Calls
