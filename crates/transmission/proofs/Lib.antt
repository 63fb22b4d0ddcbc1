pub mod Sends
pub mod Progress
pub mod Prompt
pub mod Shares
