-- Signed whole pounds, and the rounding rule.
pub mod Pounds
pub mod Rounding
pub mod Theorems
