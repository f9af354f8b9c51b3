pub mod Line
pub mod Number
pub mod Word
pub mod Output
pub mod Numeral
