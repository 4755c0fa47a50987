pub mod Listing
pub mod States
