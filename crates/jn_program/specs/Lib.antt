pub mod Gathering
pub mod Lowered
pub mod Ranges
pub mod Known
pub mod Starts
