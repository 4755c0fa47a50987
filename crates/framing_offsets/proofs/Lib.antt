pub mod TableLaws
pub mod HeldLaws
pub mod HeldWalk
pub mod HeldUnique
pub mod Unique
