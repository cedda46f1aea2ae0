pub mod Ops
pub mod Lanes
pub mod Told
pub mod Actions
pub mod Laws
pub mod Flat
pub mod Bursts
pub mod Parts
