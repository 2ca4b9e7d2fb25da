pub mod Pairing
pub mod Showing
pub mod Patching
