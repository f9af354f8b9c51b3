pub mod Fit
pub mod Laws
pub mod Cases
