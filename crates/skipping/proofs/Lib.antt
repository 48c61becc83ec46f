pub mod Forms
pub mod Notes
pub mod Passing
pub mod Skips
pub mod Turns
