pub mod Tails
pub mod Wholes
pub mod Edits
pub mod Changes
