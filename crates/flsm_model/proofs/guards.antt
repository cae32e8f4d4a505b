-- Guards and rows among them, and what each edit of a legal record leaves of them.
pub mod Guards
pub mod GuardKeys
pub mod InGuards
pub mod RangeFacts
pub mod Suits
pub mod Facts
pub mod NewRows
pub mod ShapeLaw
pub mod NestLaw
pub mod BoundLaw
pub mod Indexed
