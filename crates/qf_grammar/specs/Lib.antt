pub mod Spelling
pub mod Reading
pub mod Refusals
pub mod Usage
pub mod Statements
pub mod Laws
