pub mod Coming
pub mod Joining
pub mod Going
