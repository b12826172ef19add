-- Tagged fields: numbers, fields, formats made of them, and what is written into a buffer.
pub mod Numbers
pub mod Fields
pub mod Format
pub mod Buffers
pub mod Leaves
pub mod Message
pub mod Shapes
pub mod Theorems
