pub mod Looking
pub mod NextLog
pub mod Opened
pub mod Opening
pub mod Range
pub mod Reading
pub mod Record
pub mod Session
