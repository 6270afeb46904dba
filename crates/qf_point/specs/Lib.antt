pub mod Points
pub mod Least
pub mod Bests
pub mod Domains
pub mod Noted
