pub mod Faults
pub mod Lines
pub mod Files
pub mod Views
pub mod Surveys
pub mod Prints
