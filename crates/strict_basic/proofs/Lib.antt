pub mod BasicLaws
pub mod ElementLaws
