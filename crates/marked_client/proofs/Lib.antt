pub mod Passing
pub mod Noting
pub mod NoUpload
pub mod Beginnings
pub mod Entries
pub mod Firsts
