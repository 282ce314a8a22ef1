pub mod Histories
pub mod Playing
pub mod Unheard
pub mod Original
pub mod Programs
