pub mod Bulk
