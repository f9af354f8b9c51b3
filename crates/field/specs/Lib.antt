pub mod Field
pub mod Back
pub mod Shape
pub mod Cases
