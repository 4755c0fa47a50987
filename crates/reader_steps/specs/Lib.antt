pub mod Children
pub mod Closing
pub mod Codes
pub mod Openings
pub mod Places
pub mod Rides
