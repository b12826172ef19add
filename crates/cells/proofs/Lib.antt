-- Laws on a cell by itself.
pub mod Laws
