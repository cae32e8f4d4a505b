-- Lists of numbers, keys, entries and rows.
pub mod Lists
pub mod Totals
pub mod Members
pub mod Newest
pub mod MapLists
pub mod Counting
pub mod Copied
pub mod Testing
pub mod Shaped
