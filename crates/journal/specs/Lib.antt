pub mod Answers
pub mod Comparing
pub mod Laying
pub mod Stepping
pub mod Back
