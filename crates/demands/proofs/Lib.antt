-- The demands, each in a file of its own, the laws that they rest on, and the marked figures.
pub mod Runs
pub mod NotCancelled
pub mod Slots
pub mod Given
pub mod Lost
pub mod Returns
pub mod Demand1
pub mod Demand2
pub mod Demand3
pub mod Closed
pub mod Figures
pub mod Sheets
pub mod Plans
pub mod PlanMessages
pub mod Workbooks
