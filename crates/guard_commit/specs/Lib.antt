pub mod Reading
pub mod Stopping
pub mod Cutting
pub mod Writing
pub mod Ports
pub mod Tallying
pub mod Joining
