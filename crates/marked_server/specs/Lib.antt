pub mod Testing
pub mod Uploading
pub mod Marked
pub mod Plain
