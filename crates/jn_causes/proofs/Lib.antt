pub mod Largest
pub mod Places
pub mod Putting
