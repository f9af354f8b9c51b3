pub mod Bytes
pub mod Registers
pub mod Shows
