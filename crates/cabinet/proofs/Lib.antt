pub mod Engines
pub mod Indexing
pub mod Journaling
pub mod TakingBack
pub mod Numbered
mod Planning
