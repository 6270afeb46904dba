pub mod Atoms
pub mod Steps
pub mod Sets
pub mod Reaches
