pub mod OneOrder
pub mod Rows
pub mod Sweeping
