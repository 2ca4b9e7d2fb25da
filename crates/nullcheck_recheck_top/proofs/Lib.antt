pub mod Stepping
pub mod Looping
pub mod Showing
pub mod Answering
pub mod Starting
pub mod Wording
