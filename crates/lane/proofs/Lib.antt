pub mod Worns
pub mod Runs
pub mod Drops
