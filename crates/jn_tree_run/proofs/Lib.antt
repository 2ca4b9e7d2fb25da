pub mod Entering
pub mod InTurn
pub mod Sources
pub mod Telling
