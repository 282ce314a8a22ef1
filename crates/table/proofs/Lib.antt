pub mod Steps
pub mod Inside
pub mod Sweeping
pub mod Standing
pub mod Asked
