-- Laws on the definitions of specs/: what the slices hold, and that going by turns is going by minutes.
pub mod Held
pub mod Following
pub mod Load
pub mod Peak
