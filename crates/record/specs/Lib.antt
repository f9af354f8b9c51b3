pub mod Record
pub mod Configuration
