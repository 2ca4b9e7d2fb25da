pub mod Extending
pub mod Rounds
