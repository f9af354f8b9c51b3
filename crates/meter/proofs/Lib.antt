pub mod Started
pub mod Carrying
