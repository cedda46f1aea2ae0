pub mod Acting
pub mod Filling
pub mod Ordered
pub mod Small
pub mod Standing
pub mod Taking
