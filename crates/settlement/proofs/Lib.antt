-- Laws of powers, of the growth table, of the gap and of payments, and what a reader may rely on.
pub mod Powers
pub mod Growing
pub mod Gaps
pub mod Amounts
pub mod Only
pub mod Payments
