pub mod Monotone
pub mod Sized
pub mod Refs
pub mod Entering
