-- Days, medians and the calls on them.
pub mod Laws
pub mod Making
pub mod Only
