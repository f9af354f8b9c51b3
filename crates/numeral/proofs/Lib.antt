pub mod Lists
pub mod Digits
pub mod Held
