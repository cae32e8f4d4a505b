pub mod Samples
pub mod Answers
pub mod Tiny
pub mod Legal0
pub mod Legal1
pub mod Deep0
