pub mod EditKinds
pub mod Files
pub mod Items
pub mod Lengths
pub mod Puts
pub mod SoFar
pub mod Whole
