pub mod Marked
pub mod States
pub mod Calls
pub mod Machine
pub mod Numbers
pub mod Histories
pub mod Counts
pub mod Rounds
