-- Laws on the reading of a day sheet, and that it has one answer.
pub mod Found
pub mod Seen
pub mod Carried
pub mod Gives
pub mod Only
