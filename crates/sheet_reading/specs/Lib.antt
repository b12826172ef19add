-- What reading a day sheet gives, and its steps.
pub mod Reading
pub mod Steps
