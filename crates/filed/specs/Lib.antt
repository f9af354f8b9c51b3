pub mod Filed
pub mod Meaning
