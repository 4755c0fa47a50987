pub mod Hexadecimal
pub mod Decimals
pub mod Storing
