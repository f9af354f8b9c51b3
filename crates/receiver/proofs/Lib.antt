pub mod Hearing
pub mod Beginning
pub mod Receives
