pub mod Keeping
pub mod Listing
pub mod Pairing
pub mod Solved
