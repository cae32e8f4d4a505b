pub mod BitBytes
pub mod Examples
pub mod Held
pub mod Reach
