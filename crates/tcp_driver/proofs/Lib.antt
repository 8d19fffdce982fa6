pub mod Expiring
pub mod Standing
mod Bursts
mod InTime
mod InTwo
mod Rows
