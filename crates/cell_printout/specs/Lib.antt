-- What is printed of a workbook's cell.
pub mod Names
pub mod Printout
