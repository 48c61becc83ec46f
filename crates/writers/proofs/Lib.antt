pub mod Laid
pub mod Over
