-- Laws on a return read and written again, and that the call has one answer.
pub mod Again
pub mod Only
