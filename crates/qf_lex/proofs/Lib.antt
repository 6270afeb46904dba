pub mod Runs
pub mod Scanning
pub mod Cutting
pub mod Only
pub mod Standing
pub mod Either
pub mod Worked
