pub mod Alarms
pub mod Meaning
