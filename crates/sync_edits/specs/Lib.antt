pub mod Objects
pub mod Items
pub mod Tables
pub mod Edits
pub mod Events
pub mod Lines
