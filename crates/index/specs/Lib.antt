pub mod Form
pub mod Change
pub mod Bits
pub mod Waiters
