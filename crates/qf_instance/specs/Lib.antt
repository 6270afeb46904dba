pub mod Instances
pub mod Claims
pub mod RowSystems
pub mod Laws
pub mod Leanness
pub mod RowsMade
