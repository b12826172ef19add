-- Assessed revenue.
pub mod Revenue
pub mod Theorems
