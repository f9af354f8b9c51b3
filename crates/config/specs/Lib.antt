pub mod Verdict
pub mod Config
pub mod Meaning
pub mod Accepted
pub mod Bench
pub mod Limits
