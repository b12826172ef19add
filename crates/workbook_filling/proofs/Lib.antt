-- What filling a workbook gives is alone.
pub mod Only
