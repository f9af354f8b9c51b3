pub mod Run
pub mod Successive
