pub mod Words
pub mod Records
pub mod Frames
pub mod Lanes
