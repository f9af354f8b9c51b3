pub mod Ranges
pub mod Table
