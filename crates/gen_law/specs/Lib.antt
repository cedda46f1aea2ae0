pub mod Plans
pub mod Generated
pub mod Ends
pub mod Refusals
