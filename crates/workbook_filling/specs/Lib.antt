-- What filling a workbook gives.
pub mod Filling
