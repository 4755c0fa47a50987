pub mod Places
pub mod Steps
pub mod Shapes
pub mod Trees
pub mod Items
