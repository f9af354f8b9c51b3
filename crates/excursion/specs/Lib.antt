pub mod Old
pub mod Row
pub mod Rows
pub mod Broken
