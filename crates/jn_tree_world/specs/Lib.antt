pub mod Worlds
pub mod Outcomes
