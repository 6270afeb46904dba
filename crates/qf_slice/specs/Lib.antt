pub mod Marks
pub mod Sliced
pub mod RootBox
pub mod Laws
