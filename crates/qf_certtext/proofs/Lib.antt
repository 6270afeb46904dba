pub mod Cuts
pub mod Values
pub mod Numbers
pub mod WordLines
pub mod Clean
pub mod Found
pub mod Stated
pub mod Drafting
pub mod Accepting
pub mod InText
pub mod OneReading
mod WorkedRows
