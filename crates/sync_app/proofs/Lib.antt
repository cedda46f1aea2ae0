mod Drafting
mod Finding
mod Following
mod Measuring
mod Placing
mod Resizing
