-- What `oldsheet` prints of an outage.
pub mod Dates
pub mod Printout
pub mod Theorems
