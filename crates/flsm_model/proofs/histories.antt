-- What is kept over histories.
pub mod Histories
pub mod Sessions
pub mod Truth
pub mod Jobs
pub mod Undisturb
pub mod Starts
pub mod Whole
pub mod Outcomes
pub mod Stays
pub mod Committed
pub mod Settling
pub mod Stopping
pub mod Ending
pub mod Lessening
