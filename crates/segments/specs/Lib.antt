pub mod Segments
pub mod Meaning
