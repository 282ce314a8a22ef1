pub mod Cases
pub mod Answering
pub mod Promises
pub mod Numbers
