pub mod Seen
pub mod Heads
