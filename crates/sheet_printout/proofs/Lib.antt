-- Laws on dates and on what is printed.
pub mod Reached
pub mod Dates
pub mod Printing
pub mod Figures
pub mod Only
