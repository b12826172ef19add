-- The book, availability and the levels.
pub mod Book
pub mod Availability
pub mod Levels
