-- A plan as a message, and what reading and writing one give.
pub mod Form
pub mod Calls
pub mod Steps
pub mod Theorems
