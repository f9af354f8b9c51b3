pub mod Reply
pub mod Values
pub mod Effect
pub mod Able
pub mod Prints
