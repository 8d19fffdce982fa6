pub mod Words
pub mod Lists
pub mod Cases
pub mod pair
pub mod one_end
pub mod run
pub mod hints
pub mod Lemmas
