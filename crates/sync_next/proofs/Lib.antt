mod Acting
mod Talking
mod Telling
