pub mod Starts
pub mod Agree
pub mod Decide
pub mod Cases
