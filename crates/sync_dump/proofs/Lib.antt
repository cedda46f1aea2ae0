pub mod Digits
pub mod Elements
pub mod Joined
pub mod Ordered
pub mod Standing
pub mod Walk
