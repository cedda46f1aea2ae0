pub mod Adding
pub mod Appending
pub mod Uploading
pub mod Records
pub mod Leaving
pub mod Strokes
pub mod BadFiles
