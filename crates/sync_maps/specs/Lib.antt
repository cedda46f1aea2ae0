pub mod Seen
pub mod Next
pub mod Answers
pub mod Filled
pub mod Nexts
pub mod Through
