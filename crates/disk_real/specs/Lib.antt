pub mod Gone
pub mod Handles
pub mod Returning
pub mod Silent
