pub mod Cuts
pub mod Steps
