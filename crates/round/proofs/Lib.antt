pub mod Steps
pub mod Refusing
pub mod Agreeing
pub mod RoundAgrees
pub mod Lasting
