pub mod Narrow
pub mod SumSteps
pub mod Parts
pub mod StartSteps
pub mod ItemSteps
pub mod SetSteps
pub mod LivesLie
pub mod TextSteps
