pub mod Words
pub mod Outcomes
pub mod Messages
pub mod Reports
