pub mod Gives
pub mod Killed
pub mod Kills
pub mod Noticed
pub mod Zombies
