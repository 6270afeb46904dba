pub mod Lists
pub mod Tests
pub mod SetSteps
pub mod Flows
pub mod Chains
pub mod Ranges
pub mod Spreading
