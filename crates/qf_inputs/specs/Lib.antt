pub mod Refusals
pub mod Story
pub mod Inputs
pub mod Opened
pub mod Known
pub mod Laws
