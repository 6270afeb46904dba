pub mod Refutations
pub mod Lines
pub mod Certificates
pub mod Sizes
pub mod Lean
pub mod Steps
