pub mod Codes
pub mod Place
pub mod Messages
