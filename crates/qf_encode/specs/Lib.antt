pub mod Coding
pub mod Making
pub mod RowsMade
pub mod Lives
pub mod Systems
pub mod Encoding
