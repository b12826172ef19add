-- Laws of the calendar, and that a year's minutes have one answer.
pub mod Laws
pub mod Only
