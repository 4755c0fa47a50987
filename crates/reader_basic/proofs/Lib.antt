pub mod Answers
pub mod Loops
pub mod Leaves
pub mod Rests
