pub mod Rescaling
pub mod Show
pub mod Held
pub mod Meaning
