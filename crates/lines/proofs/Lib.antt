pub mod WordLaws
pub mod GatherLaws
pub mod Blocks
pub mod Unique
pub mod Table
