pub mod Outputs
pub mod Meaning
