pub mod Plan
pub mod Translation
pub mod Call
pub mod Bytes
pub mod Growth
pub mod Answers
pub mod Walk
