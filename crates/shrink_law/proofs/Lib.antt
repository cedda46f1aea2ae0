pub mod Answering
pub mod Staying
pub mod Shrinking
pub mod Worlds
pub mod Current
pub mod Files
pub mod Standing
mod Examples
pub mod Opened
pub mod Whole
pub mod Forked
pub mod Verified
pub mod Empty
