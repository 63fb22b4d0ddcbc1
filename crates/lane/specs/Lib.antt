pub mod Worn
pub mod Carried
pub mod Calls
pub mod Runs
pub mod Drops
