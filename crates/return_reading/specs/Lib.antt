-- What reading a return gives, and its steps.
pub mod Reading
pub mod Steps
