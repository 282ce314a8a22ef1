pub mod Answers
pub mod Written
pub mod ReadBack
