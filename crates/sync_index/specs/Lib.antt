pub mod Codes
pub mod Touched
pub mod Filters
pub mod Spots
pub mod Lemmas
