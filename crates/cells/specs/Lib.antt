-- A cell of a workbook by itself.
pub mod Cells
