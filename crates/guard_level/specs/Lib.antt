pub mod Guards
pub mod Held
pub mod TableLists
