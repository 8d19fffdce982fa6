pub mod Network
pub mod NetworkOfEnds
