pub mod Puts
pub mod Elements
pub mod Rows
