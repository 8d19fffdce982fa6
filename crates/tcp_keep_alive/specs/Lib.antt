pub mod Rules
pub mod KeepAlive
pub mod Silence
pub mod Asking
pub mod Answered
