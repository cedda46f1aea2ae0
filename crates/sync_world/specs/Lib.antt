pub mod Disks
pub mod Messages
pub mod Events
pub mod Nodes
pub mod Calls
pub mod Serves
pub mod Holding
pub mod Sending
