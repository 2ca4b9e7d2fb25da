pub mod Owned
pub mod Leaving
pub mod Worded
pub mod Unkept
