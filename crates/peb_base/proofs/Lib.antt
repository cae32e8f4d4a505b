mod Examples
mod Levels
