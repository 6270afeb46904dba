pub mod Adding
pub mod Fitting
pub mod Pushing
pub mod Forms
pub mod Small
pub mod Merging
pub mod Definitions
pub mod Systems
mod WorkedRows
