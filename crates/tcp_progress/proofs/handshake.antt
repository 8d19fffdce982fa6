-- WHO IS SERVED OPENS: over a handshake's events both ends open the connection.
pub mod FinishedInEight
pub mod SynTaken
pub mod KeepsOpening
pub mod SynServed
pub mod BothOpen
