pub mod Rescale
