-- Laws on entering a plan.
pub mod Accepted
pub mod Between
pub mod Entering
pub mod OnEmpty
pub mod Only
pub mod Passing
