pub mod Encoding
pub mod Limits
pub mod Sums
pub mod Systems
