pub mod Intervals
pub mod Moments
