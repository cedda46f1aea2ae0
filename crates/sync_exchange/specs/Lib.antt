pub mod Whole
pub mod Adapting
pub mod Profile
pub mod Bounded
pub mod Seen
pub mod Lemmas
