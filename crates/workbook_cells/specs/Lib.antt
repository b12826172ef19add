-- The cells of a workbook together, and what exporting a period and reading it give.
pub mod Workbook
pub mod Calls
pub mod Steps
pub mod Theorems
