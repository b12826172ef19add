-- A return read and written again.
pub mod Refiled
