pub mod Logs
pub mod Reach
