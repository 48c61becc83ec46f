pub mod Answers
pub mod Rests
pub mod Sets
pub mod Survey
pub mod Tables
pub mod Tally
pub mod Walk
