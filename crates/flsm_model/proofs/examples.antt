-- Closed examples: records, histories, picks, and events that no history has.
pub mod Samples
pub mod ExampleRecords
pub mod ExampleHistories
pub mod ExamplePicks
pub mod Refused
pub mod RefusedJobs
pub mod Untold
pub mod ExampleSessions
pub mod Edges
