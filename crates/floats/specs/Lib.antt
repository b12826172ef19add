-- What a float says in whole numbers and in halves.
pub mod Floats
