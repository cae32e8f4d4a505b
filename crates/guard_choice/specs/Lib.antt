pub mod Candidates
pub mod Sorted
