-- Floats and the exact numbers that they say.
pub mod Exactly
pub mod Equal
pub mod Times
pub mod Pounds
pub mod Days
