pub mod Measuring
pub mod Replacing
pub mod Taking
pub mod Updating
