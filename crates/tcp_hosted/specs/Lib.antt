pub mod Coming
pub mod Worlds
pub mod Ends
