pub mod Rounds
pub mod Agreement
