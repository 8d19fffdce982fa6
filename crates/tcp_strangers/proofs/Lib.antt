pub mod Counting
pub mod Sequences
pub mod Acknowledgements
pub mod Guards
pub mod Bursts
