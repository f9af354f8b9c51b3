pub mod Over
pub mod Lines
