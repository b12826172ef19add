-- The refusals, their numbers and their order, and what it is to answer.
pub mod Refusals
pub mod Answers
pub mod Order
