pub mod Editing
pub mod Messages
pub mod Offering
pub mod Rewriting
pub mod Storing
