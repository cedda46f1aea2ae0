pub mod Setting
pub mod Pairs
pub mod Edits
pub mod Texts
pub mod Breaks
pub mod Prelude
pub mod Merging
