-- What it is to be a day sheet.
pub mod Sheets
