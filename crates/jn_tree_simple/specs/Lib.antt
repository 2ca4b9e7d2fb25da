pub mod Standings
pub mod Doing
