-- Which jobs are picked.
pub mod Picks
pub mod Lawful
pub mod Needs
pub mod PicksSettle
