pub mod Standings
pub mod Bytes
pub mod Unique
