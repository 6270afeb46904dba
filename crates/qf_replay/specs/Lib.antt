pub mod BirthPlaces
pub mod Rows
