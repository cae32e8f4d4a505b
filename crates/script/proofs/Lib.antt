pub mod Again
pub mod Exact
pub mod Lines
pub mod Scripts
pub mod Spelled
pub mod Tokens
