-- Text by value, and numbers in decimal.
pub mod Text
