pub mod Joined
pub mod Kept
pub mod Met
pub mod Places
pub mod Seen
