-- Laws on plans and on their outages one by one.
pub mod OneByOne
pub mod Outages
pub mod Lists
pub mod Only
pub mod Parts
