pub mod Position
pub mod Laws
pub mod Checksum
pub mod Partial
pub mod Flags
pub mod Texts
pub mod Lanes
