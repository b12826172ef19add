-- Laws on the definitions of specs/, and what they say in the words of the licence.
pub mod Ranges
pub mod Years
pub mod Answers
pub mod Only
pub mod Licence
pub mod Answered
pub mod NetPresent
