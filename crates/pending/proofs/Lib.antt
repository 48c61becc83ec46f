pub mod Turns
pub mod Looks
pub mod Climbs
