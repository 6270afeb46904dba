pub mod RepairedText
pub mod Laws
