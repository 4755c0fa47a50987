pub mod SizeLaws
pub mod TableLaws
pub mod ItemLaws
pub mod AlikeLaws
