pub mod examples
pub mod lists
pub mod guards
pub mod contents
pub mod histories
pub mod picking
