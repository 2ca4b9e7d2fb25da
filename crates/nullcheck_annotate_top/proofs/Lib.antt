pub mod Changing
pub mod Studying
pub mod Phasing
pub mod Placing
pub mod Ending
pub mod Naming
pub mod Meaning
