pub mod Fresh
pub mod Indexing
pub mod Texts
