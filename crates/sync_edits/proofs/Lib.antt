pub mod Front
pub mod Utf8
pub mod Subsets
