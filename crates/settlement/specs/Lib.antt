-- Settlement: the gap, the growth table, what each call gives, and how near that is to the exact amount.
pub mod Gap
pub mod Growth
pub mod Calls
pub mod Exact
