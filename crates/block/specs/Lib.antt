pub mod Block
pub mod Values
pub mod Cases
