pub mod Case
pub mod SeedPlaces
pub mod Asked
pub mod SoundCase
pub mod RowPlaces
pub mod Kept
pub mod Faults
