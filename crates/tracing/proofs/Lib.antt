pub mod Scanning
pub mod Telling
pub mod Taking
pub mod Driving
