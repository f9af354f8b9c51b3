pub mod Total
pub mod History
pub mod Said
