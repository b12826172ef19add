-- What a book in range says, laws on levels and availability, a product in two parts, and that each call answers in one way.
pub mod Says
pub mod Ranges
pub mod Split
pub mod Signs
pub mod Only
pub mod Measured
pub mod Levelled
