pub mod Edits
pub mod Joined
pub mod Kept
pub mod Least
pub mod Merges
pub mod Parts
pub mod Walks
