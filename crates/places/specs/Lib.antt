pub mod Views
pub mod Tests
pub mod Moves
pub mod Calls
pub mod Tidiness
pub mod Agreement
