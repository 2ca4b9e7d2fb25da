pub mod Offsets
pub mod Steps
pub mod Sweeping
