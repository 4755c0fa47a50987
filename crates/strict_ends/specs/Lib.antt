pub mod Ends
