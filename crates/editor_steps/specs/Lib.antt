pub mod Walked
pub mod Walks
pub mod Slots
pub mod Closing
pub mod Starts
pub mod ReadingArrays
