mod Applied
mod Cutting
mod Held
mod Lists
