pub mod Window
pub mod Runs
pub mod Bytes
pub mod Entering
