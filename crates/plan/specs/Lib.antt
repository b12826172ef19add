-- What a plan means, and what listing it gives.
pub mod Plan
pub mod Calls
pub mod Steps
