pub mod Settings
pub mod Order
pub mod Words
pub mod Said
pub mod Turns
pub mod Meaning
pub mod Sensor
pub mod Cases
