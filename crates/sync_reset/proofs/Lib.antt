mod Alike
mod Brought
mod Tried
