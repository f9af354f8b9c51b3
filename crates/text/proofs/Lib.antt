pub mod Truth
pub mod Laws
pub mod Numbers
pub mod Lines
pub mod Streams
pub mod Cases
pub mod Waits
pub mod Pieces
