mod Refs
mod Passed
mod Overridden
mod Listing
