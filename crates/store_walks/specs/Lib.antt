pub mod Along
pub mod Walk
pub mod Standing
pub mod Ordered
pub mod Sets
pub mod Tables
