pub mod Evaluating
pub mod Valuing
