pub mod Reading
pub mod Laws
pub mod Cases
