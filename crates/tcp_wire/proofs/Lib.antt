pub mod Bytes
pub mod OptionLaws
pub mod AreaLaws
pub mod BlockReading
pub mod ReadOptions
pub mod Listed
pub mod WrittenOptions
pub mod Reading
pub mod Outcome
pub mod Unsummed
pub mod Writing
pub mod Places
pub mod Fronts
pub mod Partials
pub mod RoundTrip
pub mod Lemmas
mod Rows
