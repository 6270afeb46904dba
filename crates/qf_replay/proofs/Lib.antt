pub mod Numbers
pub mod BirthSteps
pub mod Items
pub mod Sets
pub mod LifeSteps
pub mod Meeting
pub mod Ends
pub mod Keeping
