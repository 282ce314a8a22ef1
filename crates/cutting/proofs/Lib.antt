pub mod Steps
pub mod Cuts
pub mod Finding
pub mod Scans
pub mod Chunks
pub mod Examples
