pub mod Running
pub mod Leaving
