pub mod Bytes
pub mod Exact
pub mod Writes
pub mod Shut
pub mod Cases
