pub mod Alarm
pub mod Cases
pub mod History
pub mod Said
pub mod Excursions
pub mod ExcursionCases
