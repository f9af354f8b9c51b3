pub mod Laws
pub mod Order
pub mod Takes
pub mod Cases
