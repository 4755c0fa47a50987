pub mod DigitLaws
pub mod StoringLaws
pub mod DecimalLaws
pub mod ByteLaws
pub mod NumberLaws
pub mod Unique
pub mod Table
