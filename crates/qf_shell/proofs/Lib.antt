pub mod Putting
pub mod InOrder
pub mod Promises
pub mod Completing
