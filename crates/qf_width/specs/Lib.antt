pub mod Checked
pub mod Faults
pub mod Lies
pub mod Sets
pub mod TextWidths
pub mod Widths
