pub mod Short
pub mod Exchanges
pub mod Current
pub mod Openings
pub mod Forked
