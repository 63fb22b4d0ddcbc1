pub mod Closing
pub mod Hexadecimal
pub mod Tallies
pub mod Accepted
