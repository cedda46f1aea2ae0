pub mod RunLaws
pub mod Formats
pub mod Notes
pub mod Letters
pub mod Tagged
