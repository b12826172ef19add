-- The input of `workbook`, what reading it gives, and what the functions inside are stated by.
pub mod Input
pub mod Calls
pub mod Steps
