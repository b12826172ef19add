-- A period as a workbook keeps it, and what making one and the gap of two give.
pub mod Medians
pub mod Calls
pub mod Theorems
