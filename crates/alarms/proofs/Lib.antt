pub mod Four
pub mod Laws
pub mod Bits
pub mod Soundness
