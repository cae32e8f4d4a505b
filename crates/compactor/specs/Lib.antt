pub mod Choosing
pub mod Flushing
pub mod Stopping
