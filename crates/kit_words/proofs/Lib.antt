pub mod ParsedWords
mod WordsExamples
pub mod WordsLemmas
