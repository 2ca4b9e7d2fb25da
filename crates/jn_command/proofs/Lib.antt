pub mod Showing
pub mod Standing
pub mod Ending
