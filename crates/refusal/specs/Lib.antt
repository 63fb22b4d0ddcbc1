pub mod Answers
pub mod Number
