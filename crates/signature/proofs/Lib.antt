pub mod Letters
pub mod Children
pub mod Dispatch
pub mod Answers
pub mod ShapeLaws
pub mod TreeLaws
pub mod ItemLaws
pub mod Unique
