pub mod Measured
pub mod Sound
