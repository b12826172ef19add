-- Laws on the bytes of a return, on a year that may be written, and that writing has one answer.
pub mod Sizes
pub mod Laying
pub mod Only
pub mod Writable
