pub mod Limits
pub mod Keys
pub mod Registers
pub mod Modes
pub mod Soundness
pub mod Status
pub mod Sizes
pub mod Cases
