pub mod Joined
pub mod Passing
pub mod Writing
pub mod Crossed
