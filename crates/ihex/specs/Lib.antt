pub mod Digits
pub mod Content
pub mod Meaning
pub mod Reading
pub mod Writing
pub mod Laws
