pub mod Frames
pub mod Unique
