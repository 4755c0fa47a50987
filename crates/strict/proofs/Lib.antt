pub mod Wholes
pub mod WrittenFrames
pub mod Unique
pub mod Numbers
