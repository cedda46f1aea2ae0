-- Lemmas: the laws that the model of nodes asks for hold of the project's own instructions, states and bytes.
pub mod Whole
pub mod Strings
pub mod Weights
pub mod Left
pub mod Adapting
pub mod Parts
pub mod Lawful
pub mod Coded
pub mod Olds
pub mod Held
pub mod Bounded
pub mod Buildable
pub mod Roomy
