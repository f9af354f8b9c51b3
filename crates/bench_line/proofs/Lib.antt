pub mod Sayings
pub mod Cases
pub mod Pieces
