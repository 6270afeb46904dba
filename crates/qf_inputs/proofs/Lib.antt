pub mod Faults
pub mod RootBoxes
pub mod OneReading
