-- Laws on the cells of a period together, and the calls on them.
pub mod Tables
pub mod Answers
pub mod FirstBad
pub mod Only
pub mod RoundTrip
