pub mod Going
pub mod Homes
pub mod Whole
pub mod Parts
pub mod Effects
pub mod Telling
