pub mod Found
pub mod Kept
pub mod Listed
pub mod Passing
