pub mod Errors
pub mod Listing
pub mod Replay
pub mod Show
