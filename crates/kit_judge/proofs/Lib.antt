pub mod FirstLines
pub mod PassageCounts
pub mod WordCounts
