pub mod Chunked
pub mod Held
pub mod Seen
pub mod SeenLaws
pub mod SpotLaws
pub mod Spots
