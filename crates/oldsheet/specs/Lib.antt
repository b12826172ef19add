-- What the contracts of oldsheet cite.
pub mod Input
pub mod Printout
