pub mod Words
pub mod laws
pub mod steady
pub mod turn
pub mod handshake
pub mod Lemmas
