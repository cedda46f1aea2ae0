pub mod Gathered
pub mod Strokes
pub mod Laws
pub mod Below
