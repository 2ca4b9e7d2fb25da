pub mod Along
pub mod Sent
pub mod Fits
pub mod Targets
pub mod Gathering
pub mod Listing
