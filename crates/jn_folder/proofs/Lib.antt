pub mod Asking
pub mod Stopping
