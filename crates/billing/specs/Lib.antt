pub mod Bill
pub mod Bytes
pub mod Answer
pub mod Adding
