pub mod Calls
pub mod Rows
pub mod Lines
pub mod Leaves
pub mod Exactly
pub mod Started
pub mod Demand
