pub mod Begun
pub mod Pairs
pub mod Place
pub mod Standing
pub mod State
pub mod Touched
