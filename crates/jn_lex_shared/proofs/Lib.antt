pub mod Feeds
pub mod Followed
pub mod Appending
pub mod Further
pub mod Known
pub mod Parts
pub mod Windows
pub mod Lexing
