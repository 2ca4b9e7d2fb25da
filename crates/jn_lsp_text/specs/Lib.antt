pub mod Positions
pub mod Ranges
pub mod Counting
pub mod Sweep
pub mod Marking
pub mod Choices
