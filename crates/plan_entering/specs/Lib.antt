-- What entering a plan gives.
pub mod Calls
pub mod Steps
