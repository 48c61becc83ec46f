pub mod Evaluates
pub mod Evaluations
pub mod Operands
