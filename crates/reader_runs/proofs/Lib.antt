pub mod NumberLaws
pub mod Turns
