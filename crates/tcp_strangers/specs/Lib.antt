pub mod Counts
pub mod Guesses
