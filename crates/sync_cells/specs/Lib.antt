pub mod Codes
pub mod Contents
pub mod Lists
pub mod Refusals
pub mod Undoing
