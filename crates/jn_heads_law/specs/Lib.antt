pub mod Heads
pub mod Plain
