pub mod Changes
pub mod ContentLaws
pub mod Contents
pub mod PartLaws
pub mod Registers
pub mod Shapes
pub mod Versions
