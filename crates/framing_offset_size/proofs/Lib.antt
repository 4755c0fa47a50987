pub mod Unique
pub mod WidthLaws
