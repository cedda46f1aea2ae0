pub mod Applying
pub mod Asking
pub mod Backs
pub mod Codes
pub mod Flat
pub mod Links
pub mod Places
pub mod Small
