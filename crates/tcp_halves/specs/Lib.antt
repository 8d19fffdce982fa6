pub mod Config
pub mod Options
pub mod Link
pub mod Sender
pub mod Receiver
pub mod Acceptable
pub mod Marks
pub mod Sent
