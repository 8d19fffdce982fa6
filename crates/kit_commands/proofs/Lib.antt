pub mod SegmentCounts
pub mod WordCounts
