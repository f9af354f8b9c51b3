pub mod Grammar
pub mod Change
pub mod Understood
pub mod Cases
