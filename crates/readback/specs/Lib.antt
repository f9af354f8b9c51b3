pub mod Readback
pub mod Meaning
