pub mod Block
pub mod Blocks
pub mod Counts
pub mod Places
