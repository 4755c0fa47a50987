pub mod Texts
pub mod Steps
pub mod Blocks
pub mod Lines
pub mod Whole
pub mod Unique
pub mod Table
