pub mod Calls
pub mod Construction
pub mod Good
