pub mod Historian
