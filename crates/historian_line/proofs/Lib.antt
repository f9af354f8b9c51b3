pub mod Cases
pub mod Ended
pub mod Prints
pub mod Records
pub mod Texts
pub mod Words
