pub mod Causes
pub mod Groups
