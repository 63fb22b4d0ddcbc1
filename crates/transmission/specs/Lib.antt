pub mod Tallies
pub mod Sending
pub mod Layers
pub mod Stacks
pub mod Tried
pub mod Prints
