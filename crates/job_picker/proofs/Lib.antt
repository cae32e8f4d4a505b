pub mod Filters
pub mod InFlight
pub mod KeyPlaces
pub mod Seeing
pub mod Walks
pub mod Wanted
