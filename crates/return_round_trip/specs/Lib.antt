-- A year's return written field after field, and the place of a refusal.
pub mod Flat
pub mod Places
