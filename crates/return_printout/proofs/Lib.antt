-- Laws on what is printed.
pub mod Lines
pub mod YearLines
pub mod Only
