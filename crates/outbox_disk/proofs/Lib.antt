pub mod Joined
pub mod Begun
