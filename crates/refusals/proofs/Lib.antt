-- Laws on refusals and on answers.
pub mod Laws
pub mod Cases
pub mod Writing
