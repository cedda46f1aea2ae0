pub mod Reached
pub mod ServerMarks
pub mod ClientMarks
pub mod Reading
