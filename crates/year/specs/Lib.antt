-- The year record, its limits, its fresh value and its check.
pub mod Year
