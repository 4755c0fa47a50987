pub mod Values
pub mod Structures
pub mod Arrays
pub mod Variants
