pub mod Numbers
pub mod Messages
pub mod Meaning
pub mod Decoding
pub mod Controls
pub mod Encoding
pub mod Laws
