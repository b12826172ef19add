-- The assessment of a period, and what the functions inside are stated by.
pub mod Period
pub mod Steps
