-- EVERY WORLD IS STEADY: what each event keeps of what was sent, of windows and their edges, and of both FINs.
pub mod OnlySent
pub mod AdvertisedWindows
pub mod Edges
pub mod Table
pub mod FinsByState
pub mod AlwaysSteady
