pub mod Steps
pub mod Cases
pub mod Laws
pub mod Groups
pub mod Entering
