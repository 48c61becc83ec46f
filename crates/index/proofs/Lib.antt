pub mod Forming
pub mod Changing
pub mod Answering
pub mod Marking
pub mod Listing
pub mod Walking
pub mod Waiting
