pub mod HexLanes
pub mod Cutting
pub mod Lines
pub mod Segments
pub mod Texts
pub mod Words
