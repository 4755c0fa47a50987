pub mod Answers
pub mod Rows
pub mod Rounds
pub mod Openings
pub mod NumberRows
