pub mod Cases
pub mod Pieces
