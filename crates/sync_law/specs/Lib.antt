pub mod Instrs
pub mod Law
pub mod Coded
pub mod CodedLaw
