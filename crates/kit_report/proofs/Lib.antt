pub mod Examples
pub mod Repeats
pub mod UnmarkedRuns
pub mod EventsBefore
pub mod SentLines
pub mod MemoryFaults
