pub mod Said
pub mod Found
pub mod Meaning
pub mod Numbers
pub mod Permitted
pub mod Understood
pub mod Cases
