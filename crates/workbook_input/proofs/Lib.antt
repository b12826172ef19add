-- Laws on the input of `workbook`, on the running log and on the amounts, and that reading has one answer.
pub mod Reading
pub mod Entering
pub mod Filling
pub mod Said
pub mod Answers
pub mod Only
