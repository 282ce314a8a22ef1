pub mod Search
pub mod Removal
