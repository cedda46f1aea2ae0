pub mod Indexes
pub mod Sets
pub mod Staying
