-- Laws on text and on decimals.
pub mod Laws
