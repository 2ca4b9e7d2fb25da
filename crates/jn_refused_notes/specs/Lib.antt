pub mod Marked
pub mod Refused
pub mod Told
