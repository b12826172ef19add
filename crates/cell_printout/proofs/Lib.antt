-- Laws on the line of a cell.
pub mod Lines
pub mod Days
pub mod Only
