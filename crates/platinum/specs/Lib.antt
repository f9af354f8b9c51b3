pub mod Table
pub mod Platinum
pub mod Meaning
