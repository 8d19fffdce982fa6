pub mod Rates
mod Spreading
mod Waiting
