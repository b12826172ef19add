-- Laws on what a sheet shows, on the bytes of pieces, on writing them one after another, and that writing a sheet has one answer.
pub mod Shown
pub mod Texts
pub mod Laying
pub mod Answers
pub mod Only
