pub mod Buffer
pub mod Line
