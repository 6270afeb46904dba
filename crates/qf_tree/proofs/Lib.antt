pub mod Soundness
pub mod Orders
pub mod Trees
pub mod Faults
pub mod Claims
pub mod Sizes
pub mod StepLemmas
mod WorkedRows
