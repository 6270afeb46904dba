pub mod Undoing
pub mod Splits
pub mod Grounding
pub mod Walking
pub mod Judging
