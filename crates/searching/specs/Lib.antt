pub mod Answers
pub mod Asking
