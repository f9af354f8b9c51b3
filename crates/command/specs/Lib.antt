pub mod Parse
pub mod Addressed
