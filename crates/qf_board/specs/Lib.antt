pub mod Boards
pub mod Sound
pub mod Allowed
pub mod Laws
pub mod Numbered
pub mod Kept
