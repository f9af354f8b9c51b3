pub mod Z
pub mod Quotients
pub mod Table
pub mod Meaning
pub mod Held
