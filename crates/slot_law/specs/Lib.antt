pub mod Slots
pub mod Laws
pub mod Lanes
pub mod Steps
