pub mod Files
pub mod Telling
pub mod Agreeing
pub mod Journals
