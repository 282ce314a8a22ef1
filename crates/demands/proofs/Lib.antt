pub mod Histories
pub mod Unheard
pub mod Carried
pub mod Original
pub mod Programs
