pub mod Commits
pub mod Nexts
pub mod Talks
