pub mod Then
pub mod AgreeTiny
pub mod AgreeLegal0
pub mod AgreeLegal1
pub mod AgreeDeep0
pub mod Parts
pub mod Untold
