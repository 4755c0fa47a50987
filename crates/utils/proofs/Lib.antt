pub mod Masks
pub mod Places
pub mod Unique
pub mod Answered
