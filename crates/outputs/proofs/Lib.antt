pub mod Laws
pub mod Driven
