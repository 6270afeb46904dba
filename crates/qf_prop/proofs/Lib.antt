pub mod Derivations
pub mod Rows
mod QuietRows
pub mod SmallBounds
