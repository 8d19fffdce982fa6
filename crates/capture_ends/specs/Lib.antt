pub mod Captures
pub mod Hosts
