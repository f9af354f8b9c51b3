pub mod Values
pub mod Shown
pub mod Units
