pub mod Standing
pub mod Exploring
pub mod Laws
pub mod Closing
pub mod Grounding
pub mod Deciding
pub mod Solving
pub mod Searched
