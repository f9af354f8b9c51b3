pub mod Extremes
pub mod History
pub mod Mirror
pub mod Takes
pub mod Cases
