pub mod Verdicts
pub mod Acceptance
pub mod Limits
