pub mod Search
pub mod Walk
pub mod Scale
pub mod Laws
pub mod Cases
