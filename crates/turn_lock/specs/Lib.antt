pub mod Lists
pub mod Seat
pub mod Account
pub mod Rule
pub mod Steps
pub mod Laws
pub mod Tests
