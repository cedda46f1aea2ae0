pub mod Writing
pub mod Gathering
pub mod Bringing
pub mod Stroking
pub mod Same
