pub mod Events
pub mod Told
pub mod Again
pub mod Extracts
