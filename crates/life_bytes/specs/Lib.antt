pub mod Runs
pub mod Parts
pub mod Envelopes
pub mod Spelling
pub mod Reading
pub mod Whole
