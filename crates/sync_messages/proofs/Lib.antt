pub mod Formats
pub mod Messages
pub mod Loops
pub mod Wholes
pub mod Tagged
