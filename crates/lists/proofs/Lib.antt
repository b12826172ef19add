-- Laws on tests, lists, sums and tables.
pub mod Tests
pub mod Lists
pub mod Places
pub mod Tables
pub mod Padded
pub mod Each
