pub mod Answer
pub mod Numbered
