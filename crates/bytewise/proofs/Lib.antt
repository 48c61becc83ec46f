pub mod Holding
pub mod Parts
pub mod Placing
pub mod Spreading
pub mod Stepping
