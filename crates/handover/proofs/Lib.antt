pub mod Decimals
pub mod Going
pub mod Lines
pub mod Reading
pub mod Starting
pub mod Turning
pub mod Whole
pub mod Digits
