pub mod Hearing
pub mod Playing
pub mod Demand
