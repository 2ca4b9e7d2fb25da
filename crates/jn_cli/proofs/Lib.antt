pub mod Asking
pub mod Numbers
pub mod Ranges
pub mod Simple
pub mod Taken
