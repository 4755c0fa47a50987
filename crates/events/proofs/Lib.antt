pub mod SliceLaws
pub mod Unique
