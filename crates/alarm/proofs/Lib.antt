pub mod Laws
pub mod Cases
pub mod Said
pub mod Unique
pub mod Excursions
