pub mod OneMore
pub mod Places
pub mod Within
