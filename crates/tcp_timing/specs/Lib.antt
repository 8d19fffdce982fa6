pub mod Rules
pub mod RoundTrip
pub mod Estimate
pub mod Bounds
pub mod Watch
pub mod Karn
