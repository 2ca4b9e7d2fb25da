pub mod Slots
pub mod Unique
pub mod Uncalled
pub mod Starts
pub mod Calling
