-- The calendar, and the minutes of a Relevant Year.
pub mod Years
