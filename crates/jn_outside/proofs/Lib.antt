pub mod Appending
pub mod Giving
pub mod Memories
pub mod Reading
