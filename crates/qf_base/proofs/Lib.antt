pub mod Pieces
pub mod Integers
pub mod BoxLaws
pub mod Growing
