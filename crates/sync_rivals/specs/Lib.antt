pub mod Homes
pub mod Strangers
pub mod Codes
pub mod Marks
pub mod Lists
pub mod Lemmas
