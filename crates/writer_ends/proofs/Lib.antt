pub mod EndLaws
pub mod TableLaws
