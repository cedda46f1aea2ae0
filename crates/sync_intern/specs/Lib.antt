pub mod FirstUses
pub mod Indexes
