pub mod PaddingAnswers
pub mod PartAnswers
pub mod Unique
