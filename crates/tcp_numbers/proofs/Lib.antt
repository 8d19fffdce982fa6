pub mod WordSums
pub mod LaneSums
pub mod Folding
pub mod Positions
pub mod Lemmas
pub mod FlagNames
