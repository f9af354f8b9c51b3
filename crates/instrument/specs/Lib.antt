pub mod Instrument
pub mod Shown
pub mod Meaning
pub mod Cases
