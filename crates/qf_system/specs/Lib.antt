pub mod SystemsMade
pub mod WidthsKept
pub mod PlainLogs
