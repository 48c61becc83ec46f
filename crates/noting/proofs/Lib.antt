pub mod Noted
pub mod Notes
