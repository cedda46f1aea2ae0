pub mod Clients
pub mod Draws
pub mod Edits
pub mod Turns
