pub mod Report
pub mod Orders
pub mod Frames
