mod Keys
mod Lengths
mod Places
mod Pushing
mod Standing
mod Stops
mod Walks
