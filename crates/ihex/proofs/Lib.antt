pub mod Octets
pub mod Spelling
pub mod Printed
pub mod Totals
pub mod WriteSteps
pub mod ReadSteps
pub mod Inverse
