pub mod Saved
pub mod Parts
