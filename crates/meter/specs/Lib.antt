pub mod Door
pub mod Meter
pub mod Slices
