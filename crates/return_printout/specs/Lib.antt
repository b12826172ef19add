-- What `daysheet` prints.
pub mod Printout
