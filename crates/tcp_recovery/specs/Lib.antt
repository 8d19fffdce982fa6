pub mod Delivered
pub mod History
pub mod Laws
pub mod Probe
pub mod Rack
pub mod Stretches
