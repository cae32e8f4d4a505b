pub mod Building
pub mod Counting
pub mod Ends
pub mod Form
pub mod Parts
pub mod Rows
pub mod Spots
pub mod Walks
