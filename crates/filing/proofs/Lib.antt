pub mod Datums
