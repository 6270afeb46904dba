pub mod Delivery
pub mod Inputs
pub mod Promise
pub mod Ends
pub mod Completeness
