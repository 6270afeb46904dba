pub mod Values
pub mod Desk
pub mod Desks
pub mod Memory
pub mod formers
pub mod Status
pub mod Refusal
pub mod Examples
