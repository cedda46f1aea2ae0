pub mod Indexed
pub mod Filtered
pub mod Spotted
