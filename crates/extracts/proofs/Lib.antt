pub mod Goes
pub mod Follows
pub mod Told
pub mod Again
pub mod Excursions
pub mod Extracts
