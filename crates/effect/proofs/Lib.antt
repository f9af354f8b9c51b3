pub mod Able
pub mod Shows
pub mod Prints
