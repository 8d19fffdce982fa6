pub mod Shifts
mod Silent
mod OnTime
pub mod Answered
