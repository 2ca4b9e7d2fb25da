pub mod Spots
pub mod Searched
pub mod Values
pub mod Declarations
pub mod Worded
pub mod Hovered
