pub mod Prefixes
pub mod Pushes
pub mod Scans
pub mod Spelling
pub mod Spots
pub mod Walks
mod Restarts
mod Ending
