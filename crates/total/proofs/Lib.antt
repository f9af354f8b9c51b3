pub mod Sums
pub mod Bounds
pub mod Laws
pub mod History
pub mod Cases
pub mod Said
pub mod Unique
