pub mod Listing
pub mod Plain
pub mod Walking
