-- What writing a return answers.
pub mod Written
