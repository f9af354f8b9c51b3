pub mod Sign
pub mod Exact
pub mod Meaning
pub mod Tables
