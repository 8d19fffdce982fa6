pub mod Deadlines
pub mod Turns
pub mod Table
