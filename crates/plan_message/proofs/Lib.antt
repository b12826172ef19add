-- Laws on a plan as a message: its field, what both calls answer, and that reading and writing undo each other.
pub mod Laws
pub mod Answers
pub mod Only
pub mod RoundTrip
pub mod Places
