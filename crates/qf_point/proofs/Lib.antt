pub mod Steps
pub mod Positions
pub mod Noting
pub mod DomainSteps
pub mod PointLaws
pub mod Leasts
pub mod WorkedRows
