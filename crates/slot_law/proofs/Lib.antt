pub mod Through
pub mod Items
pub mod Whole
pub mod Skipping
pub mod Rivals
pub mod Going
pub mod Barriers
pub mod Steps
mod Examples
