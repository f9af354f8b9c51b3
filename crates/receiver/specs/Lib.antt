pub mod Receiver
pub mod Since
