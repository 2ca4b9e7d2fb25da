pub mod Names
pub mod Renumbered
pub mod ByNumbers
pub mod Merged
pub mod Tokens
