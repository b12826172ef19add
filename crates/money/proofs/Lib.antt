-- Laws of pounds, of the rounding rule, and of signed numbers by their parts.
pub mod Pounds
pub mod Parts
pub mod Nearest
