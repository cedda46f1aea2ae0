pub mod Forms
pub mod Fields
pub mod Keys
pub mod Values
pub mod Columns
pub mod Printed
