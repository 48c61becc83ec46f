pub mod Pass
pub mod Skip
