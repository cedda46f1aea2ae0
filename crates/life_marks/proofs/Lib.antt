pub mod Telling
pub mod Raising
pub mod Lines
pub mod Unread
