pub mod Spot
pub mod Times
pub mod Stamps
pub mod Orders
pub mod Payload
pub mod Equality
