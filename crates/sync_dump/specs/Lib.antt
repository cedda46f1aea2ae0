pub mod Dump
pub mod Tokens
pub mod Walks
