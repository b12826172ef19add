-- The demands, a record each, and what they speak of. No contract is stated by them; theorems say them of what the calls promise.
pub mod Given
pub mod Runs
pub mod Log
pub mod Demand1
pub mod Demand2
pub mod Demand3
pub mod Closed
pub mod Sheets
pub mod Plans
pub mod Workbooks
pub mod Figures
