pub mod Digits
pub mod Right
pub mod Number
pub mod Length
pub mod Back
pub mod Shape
pub mod Cases
