pub mod Wrote
pub mod Closing
