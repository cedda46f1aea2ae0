pub mod Lists
pub mod Standing
pub mod Stretches
pub mod Passing
pub mod Acrossing
pub mod Carrying
