pub mod Shows
pub mod Reader
