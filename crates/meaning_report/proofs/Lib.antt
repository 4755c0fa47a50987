pub mod Theorems
pub mod AnyOrder
pub mod Table
pub mod Standing
