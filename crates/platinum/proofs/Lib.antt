pub mod Table
pub mod Rises
pub mod Pairs
pub mod Laws
pub mod Cases
