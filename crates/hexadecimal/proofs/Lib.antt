pub mod Cases
pub mod Digits
pub mod Meaning
pub mod Pieces
