pub mod Regions
pub mod Kept
pub mod Merges
pub mod Cuts
