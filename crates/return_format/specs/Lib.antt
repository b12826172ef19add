-- The yearly return: its format, and what reading and writing give.
pub mod Form
pub mod Return
