pub mod Gather
pub mod Meant
pub mod Few
pub mod Ranges
