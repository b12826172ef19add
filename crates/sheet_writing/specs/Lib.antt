-- What writing a day sheet answers.
pub mod Written
