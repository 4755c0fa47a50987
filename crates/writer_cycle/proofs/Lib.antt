pub mod ItemLaws
pub mod FieldRows
pub mod EntryRows
pub mod Spots
pub mod Values
