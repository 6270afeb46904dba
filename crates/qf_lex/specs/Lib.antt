pub mod Pieces
pub mod Tokens
pub mod FirstPiece
pub mod Views
pub mod Refusals
pub mod Laws
