pub mod Around
pub mod Counted
pub mod Limits
pub mod Lined
