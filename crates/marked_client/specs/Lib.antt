pub mod Testing
pub mod Saying
pub mod Marked
