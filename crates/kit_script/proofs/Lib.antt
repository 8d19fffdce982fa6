pub mod Examples
pub mod Version1
pub mod WordCounts
