-- What counts of an input.
pub mod Input
