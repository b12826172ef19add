-- What a year in range says, a test of all lines in std's word, and that its check has one answer.
pub mod Says
pub mod Listed
pub mod Only
