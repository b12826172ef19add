-- Laws on a year's amounts and a period's, and that the assessment of a period has one answer.
pub mod Years
pub mod Only
pub mod Period
