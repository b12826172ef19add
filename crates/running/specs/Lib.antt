-- The entries that run when a pass comes to an entry.
pub mod Turns
pub mod Held
