pub mod Fit
pub mod Scale
pub mod Listed
pub mod ByPoints
pub mod Cases
