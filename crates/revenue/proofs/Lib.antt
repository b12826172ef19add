-- Laws on the total of the lines, and that assessed revenue has one answer.
pub mod Terms
pub mod Sums
pub mod Only
