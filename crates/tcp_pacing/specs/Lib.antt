pub mod Pace
pub mod Pacer
pub mod Spread
