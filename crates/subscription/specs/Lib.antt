pub mod When
pub mod Life
