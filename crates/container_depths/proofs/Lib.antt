pub mod Unique
pub mod Levels
