-- Laws on the reading of a return: the rows that repeat, outages in log order, the steps put together, and that it has one answer.
pub mod Found
pub mod Following
pub mod Whole
pub mod Only
