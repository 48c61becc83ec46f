pub mod Answers
pub mod Comer
pub mod Placing
pub mod Leaving
