-- Balances over the years, the assessment, what the functions inside are stated by, and the net present values that the balances stand for.
pub mod Balance
pub mod Assessment
pub mod NetPresent
pub mod Steps
pub mod Licence
