pub mod Spelling
pub mod Words
pub mod Views
pub mod Drafts
pub mod Room
pub mod Texts
