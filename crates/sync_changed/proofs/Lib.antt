mod Ending
mod Keeping
mod Leaving
mod Meeting
mod Sparing
mod Stepping
mod Taking
