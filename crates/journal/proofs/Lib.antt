pub mod Comparing
pub mod Laying
pub mod Restoring
pub mod Stepping
